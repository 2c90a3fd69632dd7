mod Rows
mod Expression
mod Shared
mod Constraint
mod Activity
mod Body
mod Declaration
mod Rules
