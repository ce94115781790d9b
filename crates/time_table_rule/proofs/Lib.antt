mod Crowding
mod Rooms
mod Telling
