mod Gathered
mod Seated
