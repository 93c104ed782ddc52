mod Sent
mod Replied
mod Fresh
