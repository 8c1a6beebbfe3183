mod ShortWords
mod Laying
mod KeyBytes
