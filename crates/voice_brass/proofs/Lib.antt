mod Brass
