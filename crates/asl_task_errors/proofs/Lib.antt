mod Truths
mod Holding
mod Covering
