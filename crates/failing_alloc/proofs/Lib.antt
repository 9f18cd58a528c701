mod Handle
mod Steps
