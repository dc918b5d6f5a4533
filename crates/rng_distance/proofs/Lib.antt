mod Inverse
