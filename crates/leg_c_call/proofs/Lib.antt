mod OutOfMemory
mod ReasonModels
