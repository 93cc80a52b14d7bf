mod Holding
mod Passing
mod Reported
