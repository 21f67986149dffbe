pub mod Laws
mod Cut
mod Rest
mod Steps
