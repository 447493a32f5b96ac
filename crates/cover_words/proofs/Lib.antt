mod AcceptedWords
mod Faultless
mod Limits
mod Mappings
mod Places
mod Readings
mod SoundRows
mod Takings
