mod Capping
mod Naming
mod Alike
mod Tables
mod Totals
mod CountExamples
