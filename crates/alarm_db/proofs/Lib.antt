mod AllRecords
mod DigitLaws
mod Gathered
mod RowLaws
mod Taken
mod TextLaws
mod TwiceLaws
mod Whole
