mod Parts
mod Round
