mod Descents
mod Read
