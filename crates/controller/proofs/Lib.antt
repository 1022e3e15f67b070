mod Calling
mod Sparing
mod Promising
