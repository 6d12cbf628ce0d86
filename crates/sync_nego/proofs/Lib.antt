mod Cases
mod Following
mod Negotiating
mod Telling
