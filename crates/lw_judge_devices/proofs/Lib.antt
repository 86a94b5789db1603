mod Answering
mod Behind
mod BlockBytes
mod Covers
mod DeviceSteps
mod DevicesLines
pub mod DevicesSteps
mod LastWrites
mod NothingOwed
mod OpsFit
mod OwedImages
mod OwedTable
mod Repeats
mod RepliesLines
mod Requests
mod WhatStands
