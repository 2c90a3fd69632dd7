mod Names
mod Others
