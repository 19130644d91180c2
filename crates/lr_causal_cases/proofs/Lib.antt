mod Acks
