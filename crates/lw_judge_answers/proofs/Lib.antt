mod Ats
mod Completing
mod Finishing
mod Fitting
mod StepTests
mod ThreadAnswers
mod Unanswering
