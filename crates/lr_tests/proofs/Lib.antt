mod Free
mod Lists
mod Places
