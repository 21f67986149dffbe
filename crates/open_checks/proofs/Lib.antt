mod Sound
mod Walk
