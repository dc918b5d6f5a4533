mod Tangent
