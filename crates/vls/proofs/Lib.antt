-- What the border's contracts leave open: nothing; and that its steps by value are those of DEMAND 2.
mod Unique
mod ByValue
