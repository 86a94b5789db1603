mod Mails
mod Numbers
pub mod Letters
pub mod Told
pub mod ClientRuns
pub mod OwnerRuns
pub mod Sends
pub mod ClientTicks
pub mod AppEnding
pub mod AppTurns
pub mod Resting
pub mod Whole
pub mod Starting
mod Answering
mod Holdings
mod Steps
mod Handling
mod LogGrowth
mod Kept
mod Places
mod RanMessages
mod Replying
mod Listing
mod Doing
mod Ending
mod Ticking
mod Beginning
mod Carrying
mod Turning
mod Accepted
mod Printed
mod WholeParts
mod WholeAnswers
mod WholeSent
mod WholeRan
mod WholeDevices
mod WholeReplies
mod WholeLawful
mod RunLawful
pub mod AppEach
pub mod AppRounds
