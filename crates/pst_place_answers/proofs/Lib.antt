mod Plans
mod OneAnswer
mod Written
mod Showing
