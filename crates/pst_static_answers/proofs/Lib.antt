mod Plans
mod OneAnswer
