mod Decimals
mod Integers
mod Digits
mod Gone
mod Passed
mod Spelled
