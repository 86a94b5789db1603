pub mod OwnLine
pub mod RingWord
pub mod RingEnds
pub mod DeviceWord
pub mod DeviceEnds
