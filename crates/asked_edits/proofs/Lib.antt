mod Readings
mod Labels
mod Numbers
mod Contents
mod Histories
