mod LineSteps
mod SlotSteps
mod Calls
