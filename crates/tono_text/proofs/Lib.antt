mod Plans
mod Sheets
