mod TokensRead
mod Tables
mod Computing
mod Listed
mod OnePart
mod OpenMessages
