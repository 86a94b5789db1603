mod Words
mod Standing
mod Rule
mod Steps
mod Dealing
mod Beginning
mod Gathers
