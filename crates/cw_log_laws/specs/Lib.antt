-- What holds of the logs of C texts.
pub mod LoggedTexts
pub mod AcceptedLogs
pub mod WrittenLogs
