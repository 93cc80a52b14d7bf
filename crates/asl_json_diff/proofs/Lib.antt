mod Letters
mod Lists
