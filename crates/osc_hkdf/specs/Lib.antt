-- to be believed, in reading order
pub mod Hmac
pub mod Hkdf
pub mod Laws
pub mod Text
