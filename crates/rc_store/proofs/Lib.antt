mod Imports
