mod Numbers
mod Faults
mod Examples
