mod Ran
