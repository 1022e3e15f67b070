mod Making
mod Calling
mod Lining
mod Scripting
mod Telling
