mod Firsts
mod Agreeing
