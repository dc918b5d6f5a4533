mod Mallet
