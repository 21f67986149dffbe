mod Table
mod Steps
