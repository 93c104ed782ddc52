mod Expiring
mod Repeating
mod Serving
mod Counting
