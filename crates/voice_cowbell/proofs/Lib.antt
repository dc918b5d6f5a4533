mod Sounded
