mod Steps
mod Blocks
mod OwnSides
mod Most
mod Round
mod Halves
mod Depths
