mod Said
mod Ends
