mod Examples
mod Numbers
mod Places
mod Right
mod Seen
mod Utf8
