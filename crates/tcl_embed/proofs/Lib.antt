mod Moving
mod Spending
