mod Named
mod Budgets
