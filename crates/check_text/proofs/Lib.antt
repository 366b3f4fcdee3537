mod Said
mod Tabled
mod Amounts
