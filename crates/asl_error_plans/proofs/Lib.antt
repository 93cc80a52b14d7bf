mod Putting_in
mod Planned
mod Known
