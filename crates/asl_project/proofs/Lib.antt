mod Folders
mod Keys
mod Prefixes
