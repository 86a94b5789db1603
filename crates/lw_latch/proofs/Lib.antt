mod RingSteps
mod ShutBit
mod DeviceMoves
mod DeviceTelling
mod DeviceSteps
mod DeviceEnding
mod DeviceDealing
