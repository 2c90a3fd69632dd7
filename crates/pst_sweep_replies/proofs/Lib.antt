mod Sweeps
