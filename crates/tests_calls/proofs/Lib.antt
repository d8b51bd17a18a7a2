mod Everywhere
mod Within
