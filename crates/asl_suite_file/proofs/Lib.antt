mod Listing
mod StepsRead
